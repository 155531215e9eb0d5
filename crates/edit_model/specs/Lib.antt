pub mod Image
pub mod Relabel
pub mod Split
pub mod Insert
