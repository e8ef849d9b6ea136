-- Laws that the proofs of several functions use.
pub mod ScanLaws
pub mod FileLaws
pub mod VerdictLaws
pub mod ParentLaws
