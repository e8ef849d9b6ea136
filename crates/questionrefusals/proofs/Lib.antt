-- Laws that the crates above cite too.
pub mod ListLaws
-- Laws that only this crate's proofs use.
pub mod QuestionLaws
pub mod LongLaws
