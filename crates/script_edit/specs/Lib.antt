pub mod Items
pub mod ItemLaws
