pub mod Places
pub mod Examples
pub mod Cutting
pub mod Laws
pub mod Parts
