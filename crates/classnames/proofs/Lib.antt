-- Laws that the proofs of several functions use.
pub mod TableLaws
pub mod NameLaws
pub mod PackLaws
