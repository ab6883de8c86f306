pub mod Standing
pub mod Joined
pub mod Fresh
pub mod Closed
pub mod Filtered
pub mod Lacking
