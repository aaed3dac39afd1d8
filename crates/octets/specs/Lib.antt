pub mod Octets
pub mod StandingLaws
