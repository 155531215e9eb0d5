pub mod Chains
pub mod Filling
pub mod Passing
pub mod Batching
