pub mod Builds
pub mod Counts
pub mod Ends
pub mod Limit
pub mod Plans
pub mod code
