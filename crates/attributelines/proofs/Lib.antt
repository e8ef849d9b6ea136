-- Laws that the proofs of several functions use.
pub mod TokenLaws
pub mod MentionLaws
pub mod LineLaws
