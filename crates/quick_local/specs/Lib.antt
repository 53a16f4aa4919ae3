pub mod Local
pub mod Laws
pub mod Jamo
pub mod Depth
pub mod Once
pub mod Chains
pub mod Tested
pub mod Examples
