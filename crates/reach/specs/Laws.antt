-- no second answer
pub mod Only
