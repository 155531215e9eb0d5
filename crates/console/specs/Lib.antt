pub mod Line
pub mod Post
pub mod Specimens
