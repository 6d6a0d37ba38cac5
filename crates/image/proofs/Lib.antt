pub mod Stops
pub mod Placing
pub mod Answers
pub mod Laws
