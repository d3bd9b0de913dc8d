pub mod Loops
pub mod Lists
pub mod Kept
pub mod Marked
