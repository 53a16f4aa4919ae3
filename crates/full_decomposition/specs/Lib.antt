pub mod Within
pub mod Promise
