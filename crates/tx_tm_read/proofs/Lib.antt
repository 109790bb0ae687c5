pub mod Growths
pub mod Stuck
pub mod Feeding
pub mod Running
pub mod PlainTagging
pub mod Crediting
