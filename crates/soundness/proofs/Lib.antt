pub mod Order
pub mod Facts
pub mod Kept
pub mod Alike
pub mod Keeps
