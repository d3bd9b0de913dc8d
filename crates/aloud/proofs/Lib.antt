pub mod Listings
pub mod Room
pub mod Examples
