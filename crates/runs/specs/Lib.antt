pub mod Acts
pub mod Counts
pub mod Steps
pub mod Holds
pub mod Promise
