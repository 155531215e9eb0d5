pub mod AttributeSteps
pub mod NextSteps
pub mod NextLaws
