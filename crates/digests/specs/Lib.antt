pub mod Digest
pub mod Frames
