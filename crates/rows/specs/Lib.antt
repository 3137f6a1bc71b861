pub mod Pieces
pub mod Rules
pub mod Samples
pub mod Stops
