pub mod LaneLemmas
pub mod SearchLemmas
pub mod SetLemmas
