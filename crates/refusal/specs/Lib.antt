pub mod Tellings
pub mod Tests
