pub mod Numeral
pub mod Examples
