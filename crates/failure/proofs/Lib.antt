pub mod Records
pub mod Keeps
pub mod Masters
pub mod Sound
