pub mod FewestOctets
pub mod Identifiers
pub mod Once
pub mod Elements
pub mod Fronts
