pub mod code
pub mod CommandLine
pub mod Orders
pub mod Refused
