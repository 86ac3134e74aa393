pub mod KnownTests
pub mod RootTests
pub mod RootRows
pub mod Sums
pub mod Read
pub mod Rows
