pub mod Calls
pub mod Wholes
