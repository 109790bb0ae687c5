pub mod Forms
pub mod Bodies
pub mod Buffers
pub mod Versions
pub mod Modern
pub mod Calls
