pub mod Shape
pub mod Views
pub mod code
