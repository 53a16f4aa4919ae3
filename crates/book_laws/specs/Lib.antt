pub mod MapTheorem
pub mod FrontWords
pub mod Found
pub mod Never
pub mod Runs
pub mod Instances
