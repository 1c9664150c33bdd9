pub mod Profile
pub mod Simple
pub mod Leaf
pub mod Segments
pub mod Content
pub mod Bits
pub mod Strings
pub mod code
