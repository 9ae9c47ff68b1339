pub mod Head
pub mod Entry
pub mod InnerEntry
pub mod Set
