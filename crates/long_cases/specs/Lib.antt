pub mod Corrected
pub mod RunIn
