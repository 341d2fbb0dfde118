pub mod PageImage
pub mod Held
pub mod Blocks
pub mod Batch
