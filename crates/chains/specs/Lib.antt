pub mod Links
pub mod Threads
pub mod Slots
pub mod Cells
