pub mod Fields
pub mod Offsets
pub mod Records
pub mod PlaceLaws
