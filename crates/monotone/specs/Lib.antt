pub mod Runs
pub mod NeverSlidesBack
pub mod Lists
pub mod Before
pub mod Examples
