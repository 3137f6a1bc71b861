pub mod Standing
pub mod Hears
pub mod Calls
pub mod View
pub mod Lengths
pub mod Contents
pub mod AtHand
pub mod Segments
