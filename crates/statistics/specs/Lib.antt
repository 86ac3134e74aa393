pub mod Column
pub mod Ranges
pub mod Columns
