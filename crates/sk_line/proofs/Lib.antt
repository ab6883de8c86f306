pub mod Pumping
pub mod Updaters
pub mod Answering
pub mod Endings
pub mod Added
