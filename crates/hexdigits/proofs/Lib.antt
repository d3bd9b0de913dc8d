pub mod Digits
pub mod Bytes
pub mod Writing
pub mod Over
