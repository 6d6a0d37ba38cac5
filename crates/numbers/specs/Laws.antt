-- Powers of 256, and remainders by a product.
pub mod Powers
-- Bytes: what is spelled is read, and what is read is spelled.
pub mod Bytes
-- Writing: what is then read there, and what stays elsewhere.
pub mod Writing
-- Bytes stored one after another.
pub mod Storing
-- Lists of numbers: the same for each of them.
pub mod Lists
-- Bytes written among the bytes of a list of numbers.
pub mod Rewriting
-- Digits to a base.
pub mod Base
-- Digits: how they go on, and how many there are.
pub mod Digits
-- What digits say is the number that was written.
pub mod Meaning
-- Reading, writing and putting, inside a slice and outside it.
pub mod Slices
-- A text that grows.
pub mod Putting
-- No second answer.
pub mod Only
