pub mod ZeroBytes
