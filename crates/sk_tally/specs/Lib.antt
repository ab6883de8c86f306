pub mod Texts
pub mod Plans
pub mod Headline
pub mod Whole
