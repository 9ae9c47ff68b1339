pub mod Examples
pub mod PartLaws
