pub mod Stretches
pub mod Writing
pub mod Fits
pub mod Only
pub mod Laws
