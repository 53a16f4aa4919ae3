pub mod Scalars
pub mod Valid
pub mod Sequences
pub mod Pairs
pub mod QuickCheck
pub mod Concerned
pub mod Soundness
pub mod Answer
