pub mod Text
pub mod Room
pub mod Post
pub mod Specimens
