pub mod Joined
pub mod Later
pub mod Compartments
pub mod Rims
pub mod Wheels
pub mod Banded
