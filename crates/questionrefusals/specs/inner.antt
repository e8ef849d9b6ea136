-- Definitions that no public contract cites.
pub mod Scans
pub mod Checks
