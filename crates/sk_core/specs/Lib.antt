pub mod Stored
pub mod Events
pub mod Inside
pub mod Runs
pub mod Texts
pub mod Reached
