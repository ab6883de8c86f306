pub mod Windows
pub mod Blocks
pub mod Fills
pub mod Gathers
pub mod Pages
pub mod Stretches
