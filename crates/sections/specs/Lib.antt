pub mod Known
pub mod Laid
pub mod Flags
pub mod Examples
