pub mod Labels
pub mod Rules
pub mod Goes
pub mod Stops
pub mod Carrying
pub mod Faults
