pub mod Places
pub mod Replay
pub mod Calls
pub mod InnerPage
