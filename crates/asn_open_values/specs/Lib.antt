pub mod KeptValues
pub mod OpenInDer
pub mod OpenTexts
pub mod OpenValues
pub mod TextValues
