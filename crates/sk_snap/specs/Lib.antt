pub mod History
pub mod Idle
pub mod Quants
pub mod Rule
pub mod Thetas
pub mod Versions
