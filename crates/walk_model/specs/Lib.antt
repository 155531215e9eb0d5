pub mod Levels
pub mod Walk
pub mod Watch
pub mod Promise
