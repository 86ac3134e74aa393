pub mod Laws
pub mod Progress
