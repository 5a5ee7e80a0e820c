pub mod Filled
pub mod Queries
