pub mod DocumentLaws
pub mod DocumentTypes
pub mod ExtensionLaws
pub mod ExtensionTypes
pub mod Identifiers
pub mod ParameterTypes
pub mod Paths
pub mod Rules
