pub mod TableFile
