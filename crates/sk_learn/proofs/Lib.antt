pub mod Lists
pub mod Numbered
pub mod LearningLaws
pub mod ClosingLaws
