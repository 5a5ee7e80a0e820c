pub mod Chains
pub mod Joined
pub mod Parts
pub mod Queries
pub mod Yielding
pub mod Walks
