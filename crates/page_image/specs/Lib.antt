pub mod Slot
pub mod Image
pub mod Change
