pub mod Cells
pub mod Counting
pub mod Counts
pub mod Estimate
pub mod ItemCounts
pub mod Limits
pub mod Places
pub mod Tallies
