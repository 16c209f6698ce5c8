pub mod Working
pub mod Making
