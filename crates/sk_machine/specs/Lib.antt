pub mod Numbered
pub mod Coarse
pub mod Fine
pub mod Invariant
pub mod Shown
