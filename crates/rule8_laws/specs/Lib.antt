pub mod Sentence
pub mod Found
