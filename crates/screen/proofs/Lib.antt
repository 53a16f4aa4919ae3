pub mod Passing
pub mod Calling
