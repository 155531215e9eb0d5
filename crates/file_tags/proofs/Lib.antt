pub mod TagRows
