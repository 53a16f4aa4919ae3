pub mod Scheme
pub mod Inverse
pub mod Reading
pub mod RoundTrips
