mod GridsUnder
mod Deeper
mod ByParts
mod Worked
