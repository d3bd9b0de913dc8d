pub mod Steps
pub mod Frame
pub mod Sound
pub mod Laws
