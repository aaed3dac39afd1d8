pub mod Arrangement
pub mod Arrange
pub mod ArrangeLaws
