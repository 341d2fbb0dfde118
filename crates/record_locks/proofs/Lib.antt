pub mod OrderLaws
pub mod HeldLaws
pub mod CompatibleLaws
mod TableLaws
