pub mod Laws
pub mod Bracket
pub mod Rising
pub mod Bounds
