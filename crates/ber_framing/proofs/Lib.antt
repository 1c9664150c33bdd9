pub mod FrameSteps
pub mod LengthSteps
pub mod FrameEnds
pub mod Frames
