pub mod Each
pub mod Entering
