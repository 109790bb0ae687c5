mod Ends
mod Lengths
mod Growing
mod Told
mod Pasted
