pub mod StringSteps
pub mod References
pub mod RunSteps
pub mod Seeks
pub mod BodySteps
pub mod ValueSteps
pub mod DataSteps
