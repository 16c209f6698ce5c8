pub mod Turns
pub mod Scans
pub mod Stands
pub mod Writes
pub mod Cases
pub mod Finds
