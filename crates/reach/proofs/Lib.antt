pub mod Beyond
pub mod Cells
pub mod Spots
pub mod Widths
