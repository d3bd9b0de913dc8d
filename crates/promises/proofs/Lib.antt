pub mod Refused
pub mod Sounds
pub mod Exactly
pub mod Claims
pub mod Changes
pub mod Cases
