pub mod Refused
pub mod Claims
pub mod Changes
pub mod Exactly
pub mod Sounds
pub mod Cases
