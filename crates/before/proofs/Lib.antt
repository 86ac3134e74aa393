pub mod Same
pub mod Longer
pub mod EachKind
pub mod AsBefore
pub mod BeforeRunIn
pub mod Uncorrected
