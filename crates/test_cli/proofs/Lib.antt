pub mod NoFault
pub mod OneOrder
pub mod Profiles
