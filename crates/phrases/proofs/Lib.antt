pub mod Commas
pub mod Filled
pub mod Lengths
pub mod Examples
