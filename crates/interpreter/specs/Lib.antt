pub mod Answer
pub mod Room
pub mod Session
pub mod Lent
pub mod Promise
pub mod Specimens
