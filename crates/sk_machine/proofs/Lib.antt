pub mod Numbered
pub mod Coarse
pub mod Sound
pub mod Updaters
pub mod Propagator
pub mod Tokens
pub mod Parts
pub mod Shown
