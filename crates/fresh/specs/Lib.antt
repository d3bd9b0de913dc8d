pub mod Fresh
pub mod Roster
