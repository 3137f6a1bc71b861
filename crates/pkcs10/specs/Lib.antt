pub mod Infos
pub mod Requests
