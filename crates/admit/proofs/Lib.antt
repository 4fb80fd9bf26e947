pub mod Utf8
pub mod Utf8Parts
pub mod Calls
pub mod Scalars
pub mod Control
