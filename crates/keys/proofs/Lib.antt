pub mod Fronts
pub mod Laid
