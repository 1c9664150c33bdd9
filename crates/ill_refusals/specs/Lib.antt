pub mod Element
pub mod Next
pub mod Place
pub mod Fault
pub mod Outcome
pub mod code
pub mod Bounds
pub mod Retagged
