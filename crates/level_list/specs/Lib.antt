pub mod List
pub mod ListLaws
