pub mod Gap
