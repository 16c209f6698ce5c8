pub mod Lists
pub mod Law
