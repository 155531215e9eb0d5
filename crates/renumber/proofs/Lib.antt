pub mod Parts
pub mod Paths
