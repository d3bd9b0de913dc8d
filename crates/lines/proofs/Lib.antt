pub mod Moves
pub mod Rooms
pub mod Texts
pub mod Writers
