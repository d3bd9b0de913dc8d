pub mod Fresh
pub mod Mapped
