pub mod Answering
pub mod Changing
pub mod AtHand
pub mod Taking
pub mod Reasons
pub mod Faults
pub mod Aborts
pub mod Dumps
