pub mod Base
pub mod Files
pub mod Memory
pub mod Opening
pub mod Standard
pub mod Texts
pub mod Traffic
