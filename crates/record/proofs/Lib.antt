pub mod KindNumbers
pub mod Places
