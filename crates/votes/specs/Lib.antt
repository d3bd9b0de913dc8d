pub mod Votes
pub mod Grants
