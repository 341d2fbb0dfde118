pub mod Flushes
pub mod Updates
pub mod Holders
