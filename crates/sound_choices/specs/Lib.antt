pub mod Rounds
pub mod Choices
