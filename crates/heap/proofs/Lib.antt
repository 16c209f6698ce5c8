pub mod Trees
pub mod Rows
pub mod Links
pub mod Sifts
pub mod Edits
pub mod Sounds
