pub mod Labels
pub mod Firsts
pub mod Filters
pub mod Passes
pub mod Examples
