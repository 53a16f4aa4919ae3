pub mod Writing
pub mod Promise
