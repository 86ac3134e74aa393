pub mod Row
pub mod Ranges
pub mod Sums
