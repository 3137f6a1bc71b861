pub mod EcInDer
pub mod NumberReading
pub mod RsaInDer
pub mod RsaNumbers
pub mod Rules
