pub mod Records
pub mod Endings
pub mod RoundTrip
pub mod Examples
pub mod EditionOne
