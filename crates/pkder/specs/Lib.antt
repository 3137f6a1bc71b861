pub mod CommandLines
pub mod NewFiles
pub mod Responses
pub mod Tables
