-- Laws that the crates above cite, each stated once.
pub mod BoolLaws
pub mod OrderLaws
pub mod SliceLaws
pub mod ByteLaws
pub mod UntilLaws
pub mod SameLaws
pub mod LetterLaws
pub mod AnyLaws
