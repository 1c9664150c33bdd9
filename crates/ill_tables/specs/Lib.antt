pub mod Table
pub mod Names
pub mod Numbers
pub mod code
