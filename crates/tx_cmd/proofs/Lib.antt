pub mod Splits
pub mod Numerals
pub mod Names
pub mod WordTexts
pub mod LooseFronts
pub mod Faults
pub mod Once
pub mod SomeAnswer
