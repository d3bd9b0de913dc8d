pub mod Walks
pub mod Ends
