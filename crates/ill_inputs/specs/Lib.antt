pub mod TakenOctets
pub mod Hexadecimal
pub mod Inputs
pub mod Parts
pub mod InputEnds
