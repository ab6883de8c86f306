pub mod Rings
pub mod Lanes
