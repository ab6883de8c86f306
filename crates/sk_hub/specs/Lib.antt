pub mod Updaters
pub mod Hearts
pub mod Replies
pub mod Rounds
pub mod Turns
pub mod Calls
pub mod Drains
pub mod Starts
