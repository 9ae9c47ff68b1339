pub mod Labels
pub mod InnerSearch
pub mod InnerFilter
