pub mod Entries
pub mod OneEntry
