pub mod Document
pub mod Tree
