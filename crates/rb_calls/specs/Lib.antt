pub mod Sound
pub mod Calling
pub mod Elections
pub mod Words
pub mod Matches
pub mod Events
pub mod Learning
