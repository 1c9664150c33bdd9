pub mod Exact
pub mod Equality
