pub mod Device
pub mod Stretch
pub mod Layout
pub mod Formatted
pub mod Refusal
pub mod FaultReply
