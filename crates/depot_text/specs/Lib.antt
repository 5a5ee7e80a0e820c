pub mod Items
pub mod Machine
pub mod Loading
pub mod Spelling
pub mod Splitting
