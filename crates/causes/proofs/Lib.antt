pub mod Emitting
pub mod Gating
