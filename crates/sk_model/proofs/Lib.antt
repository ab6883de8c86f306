pub mod Entries
pub mod Lines
pub mod Lists
pub mod Missing
pub mod Murmur
pub mod Numbers
pub mod Rising
pub mod Sketch
