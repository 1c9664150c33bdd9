pub mod SevenBits
pub mod Dots
pub mod HexDigits
pub mod Found
pub mod OidTexts
