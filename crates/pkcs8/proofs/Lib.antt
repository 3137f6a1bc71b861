pub mod Curves
pub mod HeadInDer
pub mod InnerKeys
pub mod KeyVersions
pub mod KindsOfKeys
pub mod PublicKeyInDer
