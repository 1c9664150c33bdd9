pub mod Builds
pub mod InTurn
pub mod Puts
pub mod Statuses
