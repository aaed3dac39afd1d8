pub mod CallsLaws
pub mod FoundRun
pub mod FoundLaws
pub mod ContiguousLaws
