pub mod Sound
pub mod SoundStates
