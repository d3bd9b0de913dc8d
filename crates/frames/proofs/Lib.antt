pub mod Claims
pub mod OneLine
pub mod Lengths
