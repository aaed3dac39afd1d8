pub mod PieceLaws
pub mod CounterLaws
pub mod LevelLaws
