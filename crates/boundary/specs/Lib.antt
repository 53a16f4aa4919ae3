pub mod Crossing
pub mod Utf8Crossing
