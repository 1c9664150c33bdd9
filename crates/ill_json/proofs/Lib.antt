pub mod Added
pub mod Tokens
pub mod InAscii
pub mod ModuleLeaves
pub mod OneToOne
pub mod Results
pub mod WideNumbers
