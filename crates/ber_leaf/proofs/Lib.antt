pub mod Leaves
pub mod Integers
pub mod Bits
