pub mod Splitting
pub mod Promise
pub mod Running
pub mod Examples
