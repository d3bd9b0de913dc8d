pub mod Keeps
pub mod Sound
pub mod Laws
