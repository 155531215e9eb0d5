pub mod Words
pub mod Sound
pub mod Promise
pub mod Specimens
