-- where the loop stands, and what its arms make of it
pub mod Arms
pub mod Standing
