pub mod FrameEndings
pub mod Runs
