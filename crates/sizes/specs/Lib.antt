pub mod Recast
