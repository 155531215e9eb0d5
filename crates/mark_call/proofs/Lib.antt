pub mod Each
pub mod Loop
pub mod Own
pub mod Written
pub mod Counted
pub mod Reply
