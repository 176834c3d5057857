pub mod Appends
pub mod Events
pub mod Messages
pub mod Paged
