pub mod Tags
