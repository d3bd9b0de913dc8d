pub mod Reports
pub mod Keeps
