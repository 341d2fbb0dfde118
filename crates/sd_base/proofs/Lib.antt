pub mod TextLaws
pub mod Results
pub mod PutLaws
pub mod FieldLaws
mod ValueLaws
pub mod Rows
pub mod SlotLaws
pub mod PageLaws
pub mod PlaceLaws
mod SuperFields
pub mod AnchorFields
pub mod Positions
