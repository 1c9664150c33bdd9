pub mod ContentSizes
pub mod Sizes
pub mod Written
pub mod code
