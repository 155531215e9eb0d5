pub mod KindBits
pub mod KindsSeen
pub mod Height
