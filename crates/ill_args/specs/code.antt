pub mod Arguments
pub mod Commands
