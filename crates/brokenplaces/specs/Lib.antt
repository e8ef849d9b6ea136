-- What a reader must believe:
pub mod BrokenPlaces
pub mod Sizes
-- Inner definitions, none of which a public contract cites:
pub mod inner
