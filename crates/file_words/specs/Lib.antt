pub mod FileWords
pub mod Promise
