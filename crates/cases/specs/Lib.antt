pub mod SmallTable
pub mod Starred
pub mod Differences
pub mod Extents
pub mod Sequences
