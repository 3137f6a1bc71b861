pub mod Appends
pub mod Characters
pub mod Headers
pub mod Steps
pub mod Tags
pub mod Utf8
