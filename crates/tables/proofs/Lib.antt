pub mod Checks
pub mod Below
pub mod Lists
pub mod Walks
pub mod Groups
pub mod Sets
pub mod Words
pub mod Bitmap
