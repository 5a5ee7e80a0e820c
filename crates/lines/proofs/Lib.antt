pub mod Leading
pub mod Numerals
pub mod Written
