-- What a reader must believe:
pub mod Paths
-- Inner definitions, none of which a public contract cites:
pub mod inner
