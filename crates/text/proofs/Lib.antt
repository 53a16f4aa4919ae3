pub mod Bools
pub mod Syllables
