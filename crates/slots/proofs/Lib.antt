pub mod Tags
pub mod Crc
pub mod Slots
pub mod Cases
