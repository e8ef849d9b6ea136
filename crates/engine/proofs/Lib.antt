-- Laws that the proofs of several functions use.
pub mod OutcomeLaws
pub mod CrossLaws
pub mod SegmentLaws
pub mod MatcherLaws
pub mod SkipLaws
pub mod RunKindLaws
pub mod ReachLaws
