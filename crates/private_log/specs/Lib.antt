pub mod LogBlock
pub mod Content
pub mod Spread
pub mod Log
pub mod Frames
pub mod Reading
