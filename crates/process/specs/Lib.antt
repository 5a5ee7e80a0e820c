pub mod Process
pub mod Queries
pub mod Parts
pub mod Means
pub mod Walks
pub mod Steps
