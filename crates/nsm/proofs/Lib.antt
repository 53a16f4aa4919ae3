pub mod Fitting
pub mod Cells
