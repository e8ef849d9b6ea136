-- Laws that the crates above cite too.
pub mod BrokenLaws
-- Laws that only this crate's proofs use.
pub mod MeasureLaws
