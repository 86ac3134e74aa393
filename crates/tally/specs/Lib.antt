pub mod Judgements
pub mod Tally
