pub mod Hall
pub mod Search
pub mod Laws
pub mod Units
pub mod Table
