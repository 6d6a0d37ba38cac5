-- Definitions: what a reader must believe.
-- a test as a cell, and as a flag
pub mod Truth
-- the integer that a cell holds
pub mod Integers
-- 0E to 12, 14, 15: +, -, NEGATE, 1+, 1-, ADDX, SUBX
pub mod Sums
-- 16 to 1F: =, <>, <, >, U<, U>, 0=, 0<>, 0<, 0>
pub mod Compare
-- 21 to 24: AND, OR, INVERT, XOR
pub mod Bits
-- 13, 25 to 28: 2/, LSL, LSR, XBYTE, XWORD
pub mod Shifts
-- 29, 2A: MULTS, MULTU
pub mod Products
-- 2B, 2C: DIVS, DIVU
pub mod Quotients
-- a number of two cells
pub mod Double
-- all of them by name, in the order of their codes
pub mod Dispatch
-- what an outcome says in document 01's terms
pub mod Outcomes
-- Laws: what is proved of the definitions.
pub mod Laws
