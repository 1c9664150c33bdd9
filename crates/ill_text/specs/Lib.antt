pub mod Shown
pub mod TextOf
pub mod code
