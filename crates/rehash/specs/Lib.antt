pub mod Marker
pub mod Pending
pub mod Growth
