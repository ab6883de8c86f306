pub mod Estimates
pub mod Joined
pub mod Parts
pub mod Placing
pub mod Updates
