pub mod Post
pub mod Data
