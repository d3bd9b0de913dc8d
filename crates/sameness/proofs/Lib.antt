pub mod Seen
pub mod Told
pub mod Failure
pub mod Heartbeats
pub mod Elections
pub mod Marks
pub mod Calls
