pub mod Level
pub mod CallsLaws
