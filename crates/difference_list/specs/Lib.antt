pub mod Runs
pub mod RunLaws
pub mod SectionLaws
pub mod LevelLaws
