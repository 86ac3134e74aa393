pub mod Records
pub mod Ranges
pub mod Comparisons
