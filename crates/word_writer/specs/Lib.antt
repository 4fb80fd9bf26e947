pub mod Writer
pub mod Words
