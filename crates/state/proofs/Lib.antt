pub mod Standing
pub mod Putting
pub mod Pairs
pub mod Telling
