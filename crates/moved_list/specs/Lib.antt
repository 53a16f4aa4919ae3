pub mod Moved
pub mod Promise
pub mod Steps
