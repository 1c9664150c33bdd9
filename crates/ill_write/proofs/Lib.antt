pub mod Joined
pub mod Tags
pub mod Measured
pub mod Putting
pub mod Writing
pub mod Messages
