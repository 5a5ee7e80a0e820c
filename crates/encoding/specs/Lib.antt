pub mod Lists
pub mod Lent
pub mod Reading
pub mod Writing
pub mod Answers
