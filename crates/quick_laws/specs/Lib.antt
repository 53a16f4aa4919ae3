pub mod Laws
pub mod Own
pub mod Pending
pub mod Examples
