pub mod System
pub mod Histories
pub mod Feed
pub mod Specimens
