-- Definitions that no public contract cites.
pub mod ClassSizes
pub mod ItemSizes
