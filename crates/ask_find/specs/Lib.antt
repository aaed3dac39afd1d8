pub mod Finding
pub mod FindingLaws
pub mod GatherLaws
pub mod SearchLaws
