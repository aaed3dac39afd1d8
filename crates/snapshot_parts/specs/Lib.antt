pub mod LayingLaws
pub mod SameLaws
