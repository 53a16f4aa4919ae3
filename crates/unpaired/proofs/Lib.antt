pub mod Places
pub mod Noting
pub mod Asking
