pub mod Parts
pub mod Needs
