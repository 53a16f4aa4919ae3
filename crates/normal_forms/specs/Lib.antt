pub mod Forms
pub mod Promise
pub mod Examples
