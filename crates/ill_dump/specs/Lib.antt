pub mod Dumped
pub mod code
