pub mod Cut
pub mod Misread
pub mod Client
pub mod LogTrial
