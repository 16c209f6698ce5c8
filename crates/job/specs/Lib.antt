pub mod Legs
pub mod Parts
pub mod Promise
pub mod Shape
pub mod Units
pub mod View
