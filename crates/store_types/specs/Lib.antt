pub mod Limits
pub mod Layout
pub mod FileLayout
pub mod Replies
pub mod Records
