pub mod Scan
pub mod Single
pub mod Tokens
pub mod Cells
