pub mod Sums
pub mod Going
pub mod Counting
pub mod Summing
