pub mod Inverse
pub mod Left
pub mod Finding
