pub mod Shared
pub mod Emoji
pub mod Matching
pub mod Finding
pub mod Took
pub mod Match
