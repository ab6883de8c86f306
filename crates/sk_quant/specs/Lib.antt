pub mod Coins
pub mod Held
pub mod Limits
pub mod Order
pub mod Quantiles
pub mod Ranks
pub mod Stored
