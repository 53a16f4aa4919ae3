pub mod Compounds
pub mod Tokens
pub mod ListIs
