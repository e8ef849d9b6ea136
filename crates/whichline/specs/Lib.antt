pub mod Filled
pub mod Places
pub mod Listing
pub mod Bounds
