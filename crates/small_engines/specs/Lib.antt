pub mod SmallEngines
