pub mod Given
pub mod Form
pub mod Recording
pub mod Replay
pub mod Takes
pub mod Held
pub mod ReplayExamples
