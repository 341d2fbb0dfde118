pub mod Lines
pub mod Spelling
pub mod Words
pub mod Command
pub mod Reading
pub mod Reply
