pub mod Unpaired
