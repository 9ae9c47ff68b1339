pub mod Laws
pub mod Examples
pub mod Parts
pub mod Same
pub mod Zeros
