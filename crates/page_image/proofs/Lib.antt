mod SlotLaws
pub mod ImageLaws
