pub mod Documents
pub mod Encodings
pub mod KindRows
pub mod Kinds
pub mod RequestParts
