pub mod OpenLaws
pub mod JudgeLaws
