pub mod Needs
pub mod Parts
