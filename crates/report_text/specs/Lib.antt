pub mod Report
pub mod Following
