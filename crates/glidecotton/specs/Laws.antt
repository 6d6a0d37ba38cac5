-- no answer is taken for another, and there is no second one
pub mod Apart
pub mod Only
