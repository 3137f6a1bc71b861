pub mod CommandLines
pub mod OneCommand
pub mod PlainTexts
pub mod Tables
