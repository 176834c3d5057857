pub mod CommandLine
pub mod Chosen
