pub mod Order
pub mod Apart
pub mod Entries
pub mod Tested
pub mod Walked
