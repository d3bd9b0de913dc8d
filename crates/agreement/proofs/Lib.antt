pub mod Senders
pub mod Claims
pub mod Agreement
