pub mod Announced
pub mod Outlines
pub mod Steps
