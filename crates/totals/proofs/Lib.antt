pub mod Room
pub mod Examples
pub mod Counted
