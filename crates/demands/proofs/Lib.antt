pub mod Ended
pub mod Held
pub mod Rows
pub mod Alike
pub mod Lower
pub mod Lowering
pub mod Demand1
pub mod Demand3
