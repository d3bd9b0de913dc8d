pub mod Life
pub mod Steps
pub mod Safe
pub mod Examples
