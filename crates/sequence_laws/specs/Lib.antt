pub mod Laid
pub mod Label16
pub mod Calls16
