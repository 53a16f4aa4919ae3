pub mod Blocks
pub mod Examples
pub mod Promise
pub mod Taken
pub mod Xor
