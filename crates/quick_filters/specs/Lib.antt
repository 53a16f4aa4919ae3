pub mod Filter
pub mod Slot
