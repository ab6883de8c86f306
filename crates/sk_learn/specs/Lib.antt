pub mod Learning
pub mod Closing
