pub mod Numbers
pub mod Lengths
pub mod Items
pub mod Operands
pub mod Same
pub mod Arithmetic
pub mod Names
pub mod Table
