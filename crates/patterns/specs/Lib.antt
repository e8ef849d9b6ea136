-- What a reader must believe, each file before those that use it:
pub mod Patterns
pub mod Sharing
pub mod MatchTest
pub mod Items
-- Inner definitions, none of which a public contract cites:
pub mod inner
