-- Inner definitions, none of which a public contract cites; what the engine promises is defined in patterns (MatchTest):
pub mod inner
