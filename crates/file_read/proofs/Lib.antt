pub mod PutLaws
pub mod ReadLaws
