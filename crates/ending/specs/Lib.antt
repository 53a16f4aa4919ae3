pub mod Ending
pub mod Finish
pub mod Ends
pub mod Numbers
