pub mod Moments
pub mod Traces
pub mod Units
pub mod UnitLists
pub mod Carrying
