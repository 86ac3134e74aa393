pub mod Bytes
pub mod Transfers
