pub mod Built
pub mod Views
pub mod Refused
pub mod Lines
