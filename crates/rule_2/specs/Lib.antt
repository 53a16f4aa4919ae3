pub mod Windows
pub mod Cover
