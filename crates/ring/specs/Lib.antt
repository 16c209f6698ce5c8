pub mod Standing
pub mod Sound
