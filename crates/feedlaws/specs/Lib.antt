pub mod Mangled
pub mod Calls
