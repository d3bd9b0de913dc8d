pub mod Runs
pub mod Replies
pub mod Isolation
pub mod EveryRun
pub mod Epochs
pub mod Examples
