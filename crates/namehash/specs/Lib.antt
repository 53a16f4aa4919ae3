pub mod Namehash
pub mod Promise
