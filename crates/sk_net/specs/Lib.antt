pub mod Address
pub mod Doors
pub mod Links
pub mod Waiting
