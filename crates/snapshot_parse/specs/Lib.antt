pub mod Parsing
pub mod ParsingLaws
pub mod OrderLaws
pub mod BackLaws
