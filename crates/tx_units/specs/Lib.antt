pub mod BaseStyle
pub mod Documents
pub mod Units
pub mod Places
pub mod Inside
pub mod BaseTexts
