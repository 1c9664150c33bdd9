pub mod Output
pub mod Words
pub mod Lines
pub mod HexLines
pub mod Refusals
pub mod Runs
pub mod Compared
pub mod code
