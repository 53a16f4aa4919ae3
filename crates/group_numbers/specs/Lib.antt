pub mod Components
pub mod Batch
