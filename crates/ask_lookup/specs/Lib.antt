pub mod FallingLaws
pub mod Lookup
pub mod LookupLaws
