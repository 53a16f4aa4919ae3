pub mod Firsts
pub mod Examples
