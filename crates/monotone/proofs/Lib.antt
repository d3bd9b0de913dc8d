pub mod Onward
pub mod Heartbeats
pub mod Wins
pub mod Calls
pub mod NeverSlidesBack
pub mod Lists
pub mod Claimed
pub mod Examples
