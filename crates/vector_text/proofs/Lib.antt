pub mod Spelled
pub mod Complete
pub mod Taken
pub mod Law
