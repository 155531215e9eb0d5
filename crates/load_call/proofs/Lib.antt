pub mod Header
pub mod Fresh
pub mod Loaded
pub mod Outcome
