pub mod Walk
pub mod Sees
