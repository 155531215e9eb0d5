pub mod TailSteps
pub mod FilterMarks
pub mod WholeTags
pub mod GatherSteps
