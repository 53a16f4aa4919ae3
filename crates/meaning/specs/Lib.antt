pub mod Numbers
pub mod Restricted
pub mod Room
pub mod Lookalikes
pub mod Calls
pub mod Instances
pub mod NoList
