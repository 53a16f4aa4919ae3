pub mod Reaching
pub mod ListLaws
