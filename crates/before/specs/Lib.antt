pub mod Operations
pub mod Document
pub mod SmallEngines
