pub mod Putting
pub mod Tagging
pub mod LayingLaws
pub mod Stripping
pub mod Texts
