pub mod Calls
pub mod Rounds
pub mod Shares
pub mod Drained
pub mod Hubs
pub mod OnItsWay
pub mod Takings
pub mod Deliveries
