pub mod Cutter
pub mod CutterLaws
