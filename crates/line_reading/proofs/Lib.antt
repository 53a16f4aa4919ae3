pub mod Digits
pub mod Splits
pub mod Readings
