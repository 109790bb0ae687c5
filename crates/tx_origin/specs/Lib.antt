pub mod Paths
pub mod RelativePlaces
pub mod Values
pub mod ValueView
pub mod ValueFalls
pub mod TaggedTrees
pub mod Under
