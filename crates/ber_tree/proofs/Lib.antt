pub mod Lists
pub mod Octets
