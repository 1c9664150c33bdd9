pub mod Status
pub mod Opened
pub mod code
