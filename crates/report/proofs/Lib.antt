pub mod Walkables
pub mod Calling
