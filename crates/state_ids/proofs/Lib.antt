pub mod PageLaws
pub mod OneImage
