pub mod Calls
pub mod Promise
pub mod Callers
pub mod BothWays
pub mod Examples
