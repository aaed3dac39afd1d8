pub mod Ranges
pub mod RangesLaws
pub mod WideningLaws
