pub mod Between
pub mod Past
