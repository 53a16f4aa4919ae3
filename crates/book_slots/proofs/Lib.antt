pub mod Cuts
pub mod Walking
pub mod Naming
