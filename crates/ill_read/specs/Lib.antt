pub mod Failures
pub mod Paths
pub mod OpenElements
pub mod Feeding
pub mod Answers
pub mod Outlined
pub mod code
