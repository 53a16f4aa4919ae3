pub mod Halving
pub mod Stride
pub mod Examples
