pub mod Label
pub mod Name
pub mod Permitted
pub mod Admission
pub mod Parts
pub mod Calls
