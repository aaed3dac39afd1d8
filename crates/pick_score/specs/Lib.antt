pub mod Scores
pub mod ScoresLaws
