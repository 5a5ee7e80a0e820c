pub mod Bytes
pub mod Lines
pub mod View
pub mod Writing
