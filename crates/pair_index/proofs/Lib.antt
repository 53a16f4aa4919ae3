pub mod Bits
pub mod Slots
