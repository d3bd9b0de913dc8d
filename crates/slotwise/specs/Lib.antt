pub mod Slotwise
