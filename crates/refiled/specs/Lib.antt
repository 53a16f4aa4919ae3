pub mod Refiled
pub mod Changes
