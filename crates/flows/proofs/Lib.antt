pub mod Flowing
pub mod Accepting
