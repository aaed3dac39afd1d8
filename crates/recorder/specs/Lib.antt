pub mod Recorder
pub mod RecorderLaws
