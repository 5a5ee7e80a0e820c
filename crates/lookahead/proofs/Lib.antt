pub mod Firsts
pub mod Picks
pub mod Limits
pub mod Orders
