pub mod Apply
pub mod EditedLaws
pub mod TestedLaws
pub mod ApplyLaws
