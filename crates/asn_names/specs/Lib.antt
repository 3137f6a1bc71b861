pub mod Levels
pub mod Naming
pub mod Resolving
pub mod NamingSteps
pub mod Shaped
pub mod Judged
