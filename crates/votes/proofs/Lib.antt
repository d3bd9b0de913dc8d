pub mod Steps
pub mod Exactly
pub mod Kept
pub mod Laws
