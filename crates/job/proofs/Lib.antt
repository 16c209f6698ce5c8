pub mod Counts
pub mod Following
pub mod Settling
pub mod Spreading
pub mod Starting
pub mod Threads
pub mod Trying
pub mod Units
