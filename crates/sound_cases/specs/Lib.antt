pub mod Tables
pub mod Cases
pub mod Lowest
pub mod Sentences
