pub mod Keeps
pub mod Ticks
pub mod Sound
pub mod Laws
