pub mod Opens
pub mod Filled
pub mod Filling
pub mod Labelled
