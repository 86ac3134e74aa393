pub mod Fours
pub mod Columns
