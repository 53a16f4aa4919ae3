pub mod Book
pub mod Damage
pub mod SlotLaws
pub mod Walks
