pub mod Stayers
pub mod StayLaws
pub mod PlaceLaws
