pub mod Along
pub mod ListRefusals
pub mod Listed
pub mod ListReplies
pub mod Passes
