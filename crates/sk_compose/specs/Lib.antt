pub mod Buffers
pub mod Idle
pub mod Kept
pub mod Numbers
