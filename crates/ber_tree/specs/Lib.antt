pub mod Octets
pub mod Identifier
pub mod Length
pub mod Tree
