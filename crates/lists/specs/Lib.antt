pub mod Lists
pub mod Fronts
pub mod Texts
