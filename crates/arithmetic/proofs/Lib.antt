pub mod Booleans
pub mod Order
pub mod Lists
pub mod Pairs
pub mod Integers
pub mod Tables
pub mod Chain
pub mod Basics
