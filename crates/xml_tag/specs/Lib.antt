pub mod Post
pub mod Filter
pub mod Gather
