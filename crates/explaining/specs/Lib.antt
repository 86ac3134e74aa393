pub mod Sentences
pub mod Explanation
