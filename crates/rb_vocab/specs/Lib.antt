pub mod Levels
pub mod MessageTypes
pub mod Transitions
