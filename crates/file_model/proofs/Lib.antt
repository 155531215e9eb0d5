pub mod Places
pub mod Rows
pub mod RowKinds
pub mod Judged
pub mod Written
