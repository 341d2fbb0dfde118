pub mod Blankness
pub mod BlockSteps
pub mod CellSteps
pub mod Counting
pub mod Laid
pub mod Reaching
