pub mod OctetLists
pub mod CharacterTexts
pub mod HexadecimalTexts
pub mod NumberTexts
