pub mod PairLaws
pub mod TagLaws
pub mod TestLaws
