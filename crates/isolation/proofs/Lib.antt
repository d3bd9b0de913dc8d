pub mod Replies
pub mod Runs
pub mod Isolation
pub mod EveryRun
pub mod Epochs
pub mod Examples
