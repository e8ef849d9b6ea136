-- What a reader must believe, each file before those that use it:
pub mod Parts
pub mod Blanking
pub mod Claim
