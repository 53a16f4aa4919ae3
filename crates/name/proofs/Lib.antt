pub mod Admitting
pub mod Parting
pub mod Answering
pub mod Splitting
