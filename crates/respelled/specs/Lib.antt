pub mod Respelled
pub mod Promise
pub mod Steps
