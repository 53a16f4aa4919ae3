pub mod Places
pub mod Labels
pub mod Joining
pub mod Alone
