pub mod InDer
pub mod Rules
pub mod SameOctets
pub mod VersionTests
