pub mod Carried
pub mod Views
pub mod code
