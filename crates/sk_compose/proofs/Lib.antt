pub mod Batches
pub mod Kept
pub mod LeftOut
pub mod Smallest
