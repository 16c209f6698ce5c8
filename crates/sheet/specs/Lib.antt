pub mod Numbers
pub mod Form
pub mod Reading
pub mod Records
pub mod Readers
pub mod Whole
pub mod Steps
