pub mod Answered
pub mod LogRecords
pub mod Forced
pub mod Opened
pub mod Breaches
pub mod Walks
