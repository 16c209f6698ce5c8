pub mod Rows
pub mod Threads
pub mod Slots
pub mod Keys
