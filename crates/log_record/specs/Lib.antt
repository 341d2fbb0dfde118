pub mod Record
pub mod Fields
pub mod Legal
pub mod Text
pub mod Reading
