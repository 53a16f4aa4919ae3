pub mod Node
pub mod Parts
pub mod Octets
