pub mod LaterStarts
