pub mod Sums
pub mod Double
pub mod Bits
pub mod Extension
pub mod Products
pub mod Quotients
