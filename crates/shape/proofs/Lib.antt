pub mod Fits
pub mod HeaderLaws
pub mod Sums
pub mod RoomLaws
pub mod Parts
