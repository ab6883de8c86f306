pub mod Fronts
pub mod Results
pub mod MaskLines
pub mod Arming
