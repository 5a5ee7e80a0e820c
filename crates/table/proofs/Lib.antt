pub mod Found
pub mod Turns
