pub mod Failure
pub mod Keeps
