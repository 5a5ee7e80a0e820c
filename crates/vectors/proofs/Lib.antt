pub mod Searches
pub mod Accepting
