pub mod FilterLaws
pub mod SlotLaws
