pub mod Sheet
pub mod Calls
