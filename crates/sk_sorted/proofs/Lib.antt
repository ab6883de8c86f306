pub mod Members
pub mod Once
pub mod Pieces
pub mod Walks
