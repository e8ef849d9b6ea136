-- Demand 3 holds: laws in the order in which they build on one another, the theorem `layers_compose` last.
pub mod NoEffectLaws
pub mod CutLaws
pub mod TopDownLaws
pub mod SpaceLines
pub mod Kept
pub mod BlankBytes
pub mod BlankLines
pub mod BlankFiles
pub mod BlankRefusals
pub mod Theorem
-- The claim in use, and that each question has one answer.
pub mod Uses
pub mod OneAnswer
