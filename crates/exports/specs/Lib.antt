pub mod Frames
pub mod Listings
pub mod Steps
