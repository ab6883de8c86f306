pub mod Limits
pub mod Rows
pub mod Sizes
pub mod Texts
pub mod Boards
pub mod Parts
