pub mod Visits
pub mod Walk
pub mod Tests
pub mod Allocating
pub mod Promises
pub mod OneAnswer
pub mod Examples
