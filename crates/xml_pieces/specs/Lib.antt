pub mod Pieces
pub mod Outcome
