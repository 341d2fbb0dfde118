mod EntryLaws
pub mod ImageLaws
mod Finding
pub mod LifeLaws
pub mod PageImageLaws
