pub mod CutLaws
pub mod LineLaws
pub mod Lining
pub mod SpellingLaws
pub mod WordLaws
pub mod Spacing
pub mod OneReading
pub mod LineLengths
