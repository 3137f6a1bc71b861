pub mod FaultPaths
pub mod Following
pub mod OnePath
pub mod Places
