pub mod Marks
pub mod MarkChanges
pub mod Marked
