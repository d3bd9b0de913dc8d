pub mod Checks
pub mod Said
