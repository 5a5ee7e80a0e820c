pub mod Texts
pub mod Passes
pub mod View
pub mod Over
