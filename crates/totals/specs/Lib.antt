pub mod Totals
pub mod Examples
pub mod Room
