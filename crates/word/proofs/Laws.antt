-- Theorems that an edit of a definition is refused by.
-- every cell that is left is below 2 ^ 32
pub mod Fits
-- the flag moves by the operations that are named, and stays 0 or 1
pub mod Flag
