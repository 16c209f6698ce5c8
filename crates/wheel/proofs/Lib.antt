pub mod Rows
pub mod Quotients
pub mod Model
pub mod Seek
pub mod Rims
pub mod Turning
pub mod Calls
