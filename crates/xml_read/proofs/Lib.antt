pub mod Nestings
pub mod Sheet
