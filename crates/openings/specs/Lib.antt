pub mod Openings
pub mod NewElection
