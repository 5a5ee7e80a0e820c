pub mod Soundness
pub mod Leading
pub mod Keeping
pub mod Promised
