pub mod Listing
pub mod Stretches
pub mod Laws
