-- Laws that the crates above cite too.
pub mod AnswerLaws
-- Theorem: the frames hold.
pub mod FramesHold
