-- Laws that the crates above cite too.
pub mod SmallLaws
pub mod AnswerLaws
