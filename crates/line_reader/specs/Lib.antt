pub mod Lines
pub mod Gather
pub mod Reads
pub mod Promise
