pub mod Looping
pub mod Tallied
