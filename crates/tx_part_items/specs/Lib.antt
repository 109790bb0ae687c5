pub mod ItemsUnder
pub mod ShownParts
