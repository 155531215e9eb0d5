pub mod LevelLaws
pub mod SizeLaws
pub mod AncestorNumbers
