mod Executing
mod Going
mod Endings
mod Keyed
mod Shown
