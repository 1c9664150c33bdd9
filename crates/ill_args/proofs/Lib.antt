pub mod Arguments
pub mod Command
pub mod Filled
pub mod Found
pub mod Placed
