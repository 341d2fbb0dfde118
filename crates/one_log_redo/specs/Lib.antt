pub mod Redoing
pub mod Records
pub mod Steps
pub mod Copies
pub mod Pages
