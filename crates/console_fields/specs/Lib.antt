pub mod Field
pub mod Scan
pub mod Post
