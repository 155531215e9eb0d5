pub mod TableLaws
pub mod PowerLaws
