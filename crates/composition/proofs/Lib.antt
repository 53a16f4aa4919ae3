pub mod Composing
pub mod Texts
