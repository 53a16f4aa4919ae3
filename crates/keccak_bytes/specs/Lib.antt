pub mod Sponge
pub mod XorByte
