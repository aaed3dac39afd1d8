pub mod Call
pub mod NumberLaws
pub mod MadeLaws
pub mod ReadLaws
pub mod StepLaws
