pub mod Specimens
pub mod Splits
pub mod Words
pub mod Loads
pub mod Parses
