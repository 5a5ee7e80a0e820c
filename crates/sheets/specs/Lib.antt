pub mod Brackets
pub mod Counting
