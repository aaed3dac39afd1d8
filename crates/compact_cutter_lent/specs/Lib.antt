pub mod Stopping
pub mod StoppingLaws
