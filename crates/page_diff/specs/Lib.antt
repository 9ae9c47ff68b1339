pub mod Diff
pub mod Pack
