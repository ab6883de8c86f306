pub mod Accounts
pub mod Estimates
pub mod Halves
pub mod Lines
pub mod Numbers
pub mod Parts
pub mod Passages
