pub mod Behind
pub mod Members
pub mod PublicTexts
pub mod RequestValues
