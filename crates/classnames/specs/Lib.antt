-- What a reader must believe:
pub mod Names
-- Inner definitions, none of which a public contract cites:
pub mod inner
