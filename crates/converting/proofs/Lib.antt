pub mod Steps
pub mod Answering
