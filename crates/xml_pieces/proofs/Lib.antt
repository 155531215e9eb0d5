pub mod PieceLaws
pub mod Outcomes
