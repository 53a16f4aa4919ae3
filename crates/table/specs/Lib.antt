pub mod Table
pub mod Layout
pub mod Lookup
pub mod Spans
pub mod Part
pub mod GroupPart
