pub mod PlaceLaws
pub mod SlashLaws
