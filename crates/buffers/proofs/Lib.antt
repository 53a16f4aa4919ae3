pub mod Front
pub mod Parts
pub mod Written
pub mod Wiping
