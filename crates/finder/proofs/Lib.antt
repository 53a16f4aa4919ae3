pub mod Counting
pub mod Sharing
pub mod Taking
pub mod FindingLaws
