pub mod Ending
pub mod Growing
pub mod Printing
