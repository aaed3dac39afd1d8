pub mod Machine
pub mod Picking
pub mod PickingLaws
