pub mod Wrapped
pub mod Signs
pub mod Parts
pub mod Extended
pub mod Laws
