pub mod Decimal
pub mod Writing
pub mod ShownLaws
pub mod AllLines
pub mod Fits
pub mod Filling
pub mod Examples
