pub mod LinesUnder
pub mod LaidParts
pub mod Finding
pub mod Slots
pub mod Laying
