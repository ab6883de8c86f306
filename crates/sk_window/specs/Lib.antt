pub mod Frames
pub mod Intervals
pub mod Joins
pub mod Hubs
pub mod Panes
pub mod Replies
