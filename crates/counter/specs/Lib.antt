pub mod Counter
pub mod Promise
pub mod Sample
