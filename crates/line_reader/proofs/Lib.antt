pub mod Gathering
pub mod Pieces
