pub mod Passes
pub mod Holding
pub mod Stepping
