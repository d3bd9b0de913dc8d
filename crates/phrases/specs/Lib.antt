pub mod Phrases
pub mod Examples
