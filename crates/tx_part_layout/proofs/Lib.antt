pub mod Alike
pub mod Lining
mod ShapesUnder
pub mod PageEnds
mod Few
mod Reusing
mod Blanks
mod SoFar
mod Stacking
mod Lowered
mod SlotOf
mod Growing
mod OnePart
mod Levels
mod Pairing
mod Wholes
