pub mod Node
pub mod Changes
pub mod Outcomes
pub mod Same
