pub mod Unpack
pub mod Promise
pub mod Differences
pub mod Versions
