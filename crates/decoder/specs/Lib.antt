pub mod Decode
pub mod Sheets
