pub mod Sentences
pub mod Calls
pub mod Steps
pub mod Left
