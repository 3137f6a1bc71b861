pub mod AsymmetricKeys
pub mod EncryptedKeys
pub mod HeadInDer
pub mod KeyPackages
pub mod Keys
pub mod PublicKeyInDer
pub mod Seen
