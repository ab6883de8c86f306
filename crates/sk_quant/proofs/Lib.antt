pub mod Bounds
pub mod Carries
pub mod Errors
pub mod Halves
pub mod Levels
pub mod Merges
pub mod Orders
pub mod Sketches
