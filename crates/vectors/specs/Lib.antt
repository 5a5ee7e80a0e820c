pub mod Verdicts
pub mod Accepts
