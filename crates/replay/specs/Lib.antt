pub mod Replaying
pub mod PlayLaws
pub mod ReplayingLaws
