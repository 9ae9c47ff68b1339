pub mod Change
pub mod InnerChange
pub mod Sync
