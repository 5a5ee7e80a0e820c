pub mod Sides
pub mod Answers
pub mod Orders
