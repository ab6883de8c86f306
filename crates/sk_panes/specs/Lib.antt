pub mod Plans
pub mod Panes
pub mod Candidates
pub mod Running
