pub mod Listing
pub mod Buffer
pub mod Laws
pub mod Sinks
pub mod Proved
