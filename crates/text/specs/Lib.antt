pub mod Hangul
pub mod Decomposition
pub mod Ordering
pub mod Composition
pub mod QuickCheck
pub mod Classes
