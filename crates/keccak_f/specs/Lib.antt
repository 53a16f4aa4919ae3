pub mod Lengths
pub mod Permutation
pub mod Rows
pub mod Tables
pub mod Tabulate
