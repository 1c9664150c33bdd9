pub mod ListedNames
pub mod Worst
