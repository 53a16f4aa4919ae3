pub mod Steady
pub mod Marked
pub mod Walks
