pub mod Puts
pub mod Results
pub mod Tallied
pub mod Kept
pub mod Messages
