pub mod Members
pub mod Gathered
