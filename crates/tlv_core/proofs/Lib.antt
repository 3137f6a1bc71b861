pub mod Arcs
pub mod Base128
pub mod Digits
pub mod Headers
pub mod ObjectIdentifiers
pub mod Puts
