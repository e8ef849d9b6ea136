-- What a reader must believe:
pub mod Text
pub mod Bytes
pub mod Letters
