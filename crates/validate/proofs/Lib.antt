pub mod Promises
pub mod OneAnswer
pub mod Examples
pub mod Audits
pub mod Reaches
