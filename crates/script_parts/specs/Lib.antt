pub mod Parts
pub mod PartLaws
