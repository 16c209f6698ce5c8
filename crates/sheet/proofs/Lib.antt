pub mod Figures
pub mod Spelling
pub mod Tails
pub mod Lines
pub mod Sheets
pub mod Stops
pub mod Outcomes
