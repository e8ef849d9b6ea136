-- Laws that the crates above cite too.
pub mod LineLaws
pub mod DecisionLaws
pub mod PartLaws
-- Theorem: what the last decision is.
pub mod DecisionMeaning
