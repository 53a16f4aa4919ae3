pub mod Confusable
pub mod Extent
pub mod Holders
