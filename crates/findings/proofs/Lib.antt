pub mod Entry
pub mod Entering
pub mod Accepting
pub mod Series
pub mod HeldRow
pub mod Findings
