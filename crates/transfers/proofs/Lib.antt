pub mod Bytes
pub mod Numbers
pub mod Progress
pub mod Whole
