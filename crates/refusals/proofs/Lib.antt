-- Laws that the crates above cite too.
pub mod LowestLaws
pub mod NumberLaws
