pub mod Groups14
pub mod Slots14
pub mod SameTable
