pub mod Faults
pub mod FaultLaws
