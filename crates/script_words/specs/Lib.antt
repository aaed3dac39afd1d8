pub mod Words
pub mod WordLaws
pub mod HexLaws
