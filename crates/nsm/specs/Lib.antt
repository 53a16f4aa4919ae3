pub mod Marks
pub mod Run
