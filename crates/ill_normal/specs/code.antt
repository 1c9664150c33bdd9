pub mod Taking
pub mod Loop
pub mod Streaming
