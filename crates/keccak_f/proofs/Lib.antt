pub mod Rotation
pub mod Lanes
