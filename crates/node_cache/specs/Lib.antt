pub mod Cache
pub mod Places
pub mod Writes
pub mod Room
pub mod Records
pub mod Lending
pub mod Sending
