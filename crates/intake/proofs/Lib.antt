pub mod Dues
pub mod Stages
pub mod Intakes
pub mod Ends
pub mod Alone
