pub mod List
pub mod Entries
pub mod EntryLaws
pub mod RunLaws
pub mod CountLaws
pub mod ListLaws
pub mod FoundLaws
pub mod TurnLaws
