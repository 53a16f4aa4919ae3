pub mod Spelling
pub mod Vectors
