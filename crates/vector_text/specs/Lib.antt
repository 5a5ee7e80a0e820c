pub mod Words
pub mod Machine
pub mod Reading
pub mod Spelling
