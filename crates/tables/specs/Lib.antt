pub mod Sizes
pub mod Checks
pub mod Below
pub mod Lists
pub mod Sets
pub mod Majorities
