pub mod Each
pub mod Pieces
pub mod Moves
pub mod Sound
pub mod Formed
pub mod Law
