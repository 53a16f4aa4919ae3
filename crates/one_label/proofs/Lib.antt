pub mod Judging
pub mod Said
