pub mod Apart
pub mod Sought
