pub mod Named
pub mod Rendered
pub mod Restored
pub mod Ends
pub mod Instances
