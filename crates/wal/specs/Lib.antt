pub mod Log
pub mod Reader
pub mod Writer
pub mod Run
