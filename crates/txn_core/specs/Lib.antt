pub mod Seats
pub mod Told
pub mod Shown
pub mod Updates
pub mod Undo
pub mod Ending
