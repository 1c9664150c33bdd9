pub mod Causes
pub mod Path
pub mod Members
pub mod Said
pub mod Shown
pub mod Faulty
pub mod Line
pub mod code
