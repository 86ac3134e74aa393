pub mod Declared
pub mod InPlaceOfNine
pub mod Agreement
