pub mod Text
pub mod Memory
pub mod Told
