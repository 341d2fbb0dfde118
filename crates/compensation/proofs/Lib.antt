pub mod InverseLaws
pub mod LeftLaws
pub mod FindingLaws
pub mod LogRecords
