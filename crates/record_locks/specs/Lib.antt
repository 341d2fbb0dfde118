pub mod Order
pub mod Held
pub mod Answer
pub mod Table
pub mod GivenUp
