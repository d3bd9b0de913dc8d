pub mod Acks
pub mod Counts
