pub mod Sending
pub mod FieldPaths
pub mod Bits
pub mod Elements
