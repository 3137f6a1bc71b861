pub mod DifferenceLaws
pub mod PrivateValues
pub mod Samenesses
pub mod FirstDifferences
pub mod DifferenceRounds
pub mod Keys
