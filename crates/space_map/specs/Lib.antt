pub mod Entry
pub mod Image
pub mod Reading
pub mod Change
pub mod Life
pub mod PageImage
