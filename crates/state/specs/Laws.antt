-- what the sums of the parts come to
pub mod Sizes
-- one more element of an array
pub mod Arrays
-- bytes are as many as the width says, and stand for one value
pub mod Sound
-- so it is with each part of a state
pub mod Spelling
-- one number of a record is changed
pub mod Changed
-- no second answer
pub mod Only
-- what the bytes can carry is what a machine that exists can hold
pub mod Fits
