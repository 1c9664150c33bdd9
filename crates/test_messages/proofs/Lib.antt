pub mod Accepted
pub mod FrontForms
pub mod Refused
pub mod ModuleForms
pub mod WrittenForms
