-- What a reader must believe, each file before those that use it:
pub mod Answers
pub mod Frames
