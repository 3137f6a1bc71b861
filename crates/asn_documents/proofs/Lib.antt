pub mod AtHand
pub mod CheckValues
pub mod Comparing
pub mod Normalising
pub mod ReadValues
pub mod WholeInputs
