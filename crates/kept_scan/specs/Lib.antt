pub mod Passing
pub mod Keeping
