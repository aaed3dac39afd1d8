pub mod PicksLaws
