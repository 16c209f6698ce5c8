pub mod Cells
pub mod Order
pub mod Contents
pub mod Heaps
