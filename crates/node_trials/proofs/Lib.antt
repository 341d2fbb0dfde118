pub mod ReadyLaws
pub mod SeatedLaws
