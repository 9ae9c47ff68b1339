pub mod OneAnswer
pub mod Promises
pub mod Carry
pub mod Stores
pub mod Moves
pub mod Markers
pub mod Examples
