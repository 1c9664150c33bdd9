pub mod TakenOctets
pub mod PlainTexts
pub mod DigitErrors
pub mod HexAnswers
pub mod PartEnds
