-- Modules that several proofs use.
mod Marks
mod Places
