pub mod Keys
pub mod Lookups
