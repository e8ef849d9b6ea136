-- Laws that the crates above cite too.
pub mod RunLaws
pub mod ItemLaws
pub mod ReadLaws
pub mod TailLaws
pub mod LastByteLaws
pub mod FirstByteLaws
-- Theorem: the test decides the relation.
pub mod Meaning
