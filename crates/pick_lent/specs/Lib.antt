pub mod Taking
pub mod PicksLaws
