pub mod Probes
pub mod Keeps
