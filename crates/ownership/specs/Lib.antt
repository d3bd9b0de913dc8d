pub mod Claim
pub mod Own
pub mod Owners
