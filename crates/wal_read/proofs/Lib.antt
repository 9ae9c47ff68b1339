pub mod NextLaws
pub mod Nodes
pub mod UpdateLaws
pub mod ReadLaws
pub mod Answered
pub mod Readers
pub mod Examples
pub mod SetExamples
