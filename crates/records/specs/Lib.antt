pub mod Record
pub mod Run
pub mod RecordLaws
