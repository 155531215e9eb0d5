pub mod OneTag
pub mod Inside
