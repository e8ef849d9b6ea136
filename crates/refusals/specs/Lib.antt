-- What a reader must believe, each file before those that use it:
pub mod Limits
pub mod Flags
pub mod Refusals
pub mod Numbers
-- Inner definitions, none of which a public contract cites:
pub mod inner
