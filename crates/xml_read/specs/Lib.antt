pub mod Sure
pub mod Whole
