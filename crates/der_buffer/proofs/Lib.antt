pub mod OpenElements
pub mod LongLengths
