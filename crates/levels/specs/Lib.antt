pub mod Levels
pub mod LevelsLaws
