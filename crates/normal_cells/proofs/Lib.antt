pub mod Reading
pub mod Moving
pub mod Compacting
