pub mod Tables
pub mod Needs
pub mod Sums
pub mod Packed
