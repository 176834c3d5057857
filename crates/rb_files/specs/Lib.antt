pub mod Finds
pub mod Walks
pub mod Ignored
pub mod Places
pub mod PathErrors
pub mod Names
pub mod Entries
