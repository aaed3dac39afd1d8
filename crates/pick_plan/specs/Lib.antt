pub mod Starts
pub mod Plans
pub mod StartLaws
pub mod OneLaws
pub mod ChoiceLaws
pub mod PickCallsLaws
pub mod PlansLaws
pub mod FirstLaws
