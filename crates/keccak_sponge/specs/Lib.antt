pub mod State
pub mod Filled
