-- Laws that the crates above cite too.
pub mod LendLaws
-- Laws that only this crate's proofs use.
pub mod AboveLaws
-- Theorems: what is lent.
pub mod Meaning
pub mod Laid
pub mod LentFiles
