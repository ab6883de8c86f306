pub mod Places
pub mod Sketches
