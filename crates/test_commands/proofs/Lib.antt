pub mod Bounds
pub mod Outputs
pub mod Dumped
