-- Theorem: from a code back to its condition.
pub mod CodeMeaning
