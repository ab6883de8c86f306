-- The commands: their plans, and what each does.
pub mod About
pub mod Count
pub mod Hash
pub mod Image
pub mod Join
pub mod Make
pub mod Quantile
pub mod Replay
pub mod Serve
pub mod Tally
pub mod Tenants
pub mod Window
