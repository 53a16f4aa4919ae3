pub mod NameBytes
pub mod Wiping
pub mod Examples
