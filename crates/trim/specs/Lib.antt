pub mod Ends
pub mod Examples
pub mod Facts
pub mod Trim
