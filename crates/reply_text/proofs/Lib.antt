pub mod Specimens
pub mod Digits
pub mod Writes
