pub mod Tests
pub mod Given
pub mod Accepting
pub mod Ranges
