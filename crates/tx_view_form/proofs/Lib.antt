pub mod LineCounts
pub mod ErrorCounts
mod ClusterCounts
mod FormWeights
pub mod Labelled
pub mod ShownWeights
mod Parting
mod Single
mod ClusterCuts
pub mod ShownItems
mod Marking
mod OnLines
mod Shortness
mod Behind
pub mod PathUnits
mod Located
mod Placing
mod TableRows
