pub mod Found
pub mod Names
pub mod Runs
