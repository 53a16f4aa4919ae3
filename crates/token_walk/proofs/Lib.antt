pub mod Nexting
