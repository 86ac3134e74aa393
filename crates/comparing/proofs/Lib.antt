pub mod Words
pub mod Walking
pub mod Compared
