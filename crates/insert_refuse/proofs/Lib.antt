pub mod Headers
pub mod Refusals
