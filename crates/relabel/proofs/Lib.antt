pub mod Rows
pub mod Shifts
