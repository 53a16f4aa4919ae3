pub mod OwnGroup
pub mod Unique
pub mod Respelling
pub mod Lists16
