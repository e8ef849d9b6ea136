-- Laws that the crates above cite too.
pub mod ComponentLaws
pub mod PatternLaws
pub mod SubjectLaws
-- Laws that only this crate's proofs use.
pub mod PrefilterLaws
-- Theorem: matching, by the relation.
pub mod Meaning
