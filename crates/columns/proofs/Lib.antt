pub mod Cut
pub mod Gates
pub mod Walk
pub mod ByColumns
pub mod Numbers
pub mod Tally
pub mod Marks
pub mod Sheets
