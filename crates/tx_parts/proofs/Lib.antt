pub mod Maps
pub mod UnderValues
pub mod Shifting
pub mod PartRuns
pub mod FrameRuns
pub mod Running
pub mod Children
pub mod Restoring
pub mod Settings
pub mod Layers
pub mod LayerValues
pub mod Inside
pub mod Composing
pub mod Opened
pub mod Openers
pub mod MacroShells
pub mod Fitting
pub mod Standing
pub mod Holding
pub mod Costing
pub mod Recomposing
pub mod Staying
pub mod Pairing
mod Worked
mod WorkedShells
mod WorkedRecomposed
