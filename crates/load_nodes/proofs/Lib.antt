pub mod Nodes
pub mod GapLaws
