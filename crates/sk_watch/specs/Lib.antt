pub mod Alarms
pub mod Masks
pub mod Places
pub mod Watching
