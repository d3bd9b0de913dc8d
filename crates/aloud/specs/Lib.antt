pub mod Aloud
pub mod Examples
pub mod Room
