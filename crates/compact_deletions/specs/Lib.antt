pub mod Deletions
pub mod DeletionsLaws
