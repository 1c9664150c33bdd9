pub mod Framed
pub mod Framer
