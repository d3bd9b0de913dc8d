pub mod Heartbeats
pub mod Heard
