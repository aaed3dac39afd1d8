pub mod Builder
pub mod Neighbours
pub mod NeighbourLaws
pub mod MergeLaws
