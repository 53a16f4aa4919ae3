pub mod Groups
pub mod Bound
pub mod Call
