pub mod Calls
pub mod Numbers
pub mod Outcomes
pub mod Refusals
pub mod Wholes
