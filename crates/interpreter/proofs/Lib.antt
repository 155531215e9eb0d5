pub mod Listings
pub mod Commands
pub mod Steps
pub mod LentSteps
pub mod Sessions
pub mod Specimens
