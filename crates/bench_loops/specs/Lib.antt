pub mod Rounds
pub mod RoundsLaws
pub mod Turns
pub mod TurnsLaws
