pub mod Orders
pub mod Extremes
pub mod Vectors
pub mod Holds
