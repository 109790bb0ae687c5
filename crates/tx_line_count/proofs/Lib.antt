mod Trees
mod Primitives
mod Names
mod Parts
mod Evaluating
mod UnitTrees
mod Counting
