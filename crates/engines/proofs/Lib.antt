pub mod Again
pub mod Answers
pub mod Numbers
