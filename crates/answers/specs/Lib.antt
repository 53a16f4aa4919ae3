pub mod Verdict
pub mod Values
pub mod Restriction
