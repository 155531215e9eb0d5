pub mod Offsets
pub mod Places
