pub mod Nearness
pub mod Texts
pub mod Plans
pub mod Headline
