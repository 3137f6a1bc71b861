pub mod Lines
pub mod Parts
pub mod PublicFields
pub mod Shown
pub mod Texts
