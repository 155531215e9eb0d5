pub mod Rows
pub mod Tables
pub mod Accepted
pub mod Edits
