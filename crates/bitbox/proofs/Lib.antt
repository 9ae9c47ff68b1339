pub mod Examples
pub mod Exported
pub mod OneAnswer
