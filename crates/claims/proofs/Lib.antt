pub mod Claims
pub mod Search
