pub mod Next
pub mod Chain
