-- Definitions that no public contract cites.
pub mod PackedNames
