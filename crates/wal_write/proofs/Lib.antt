pub mod Bytes
pub mod CallLaws
pub mod WriterLaws
pub mod PageUpdates
pub mod Runs
pub mod RunExamples
pub mod PastCount
pub mod Examples
