-- the next ready task, by the numbers that are kept
pub mod Order
-- nothing below has to be believed
pub mod Laws
