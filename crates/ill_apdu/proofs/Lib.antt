pub mod Apdus
pub mod Requests
pub mod SameApdu
